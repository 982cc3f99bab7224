pub mod WordLemmas
pub mod VariableLemmas
pub mod CommandLemmas
pub mod RoomLemmas
pub mod CountLemmas
pub mod ValueLemmas
