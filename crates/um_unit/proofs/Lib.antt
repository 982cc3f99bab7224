pub mod HeardLemmas
pub mod ListLemmas
pub mod ReadingLemmas
pub mod SettingLemmas
pub mod UpperLemmas
