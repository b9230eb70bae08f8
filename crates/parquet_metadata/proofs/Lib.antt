pub mod FieldLemmas
pub mod MemberLemmas
pub mod ReadLemmas
pub mod PlaceLemmas
pub mod OneTree
pub mod FileTree
