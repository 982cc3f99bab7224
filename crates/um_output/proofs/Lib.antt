mod FileNames
mod KeptLaws
mod OpenEnds
mod PlainLaws
mod ShownLaws
