pub mod DecimalLemmas
pub mod SpanLemmas
pub mod ExitLemmas
pub mod TableLemmas
