pub mod NamedLaws
pub mod DropLaws
pub mod PassedLaws
mod FirstLaws
mod ReadyLaws
pub mod LeastLaws
pub mod SumLaws
pub mod MirrorLaws
pub mod ShortLaws
pub mod KeptLaws
pub mod FreshLaws
pub mod FreeLaws
