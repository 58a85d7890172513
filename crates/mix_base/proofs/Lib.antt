pub mod JsonLemmas
pub mod MemberLemmas
pub mod NameLemmas
