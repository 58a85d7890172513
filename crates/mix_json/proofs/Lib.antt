pub mod BackLemmas
pub mod NumberLemmas
pub mod ObjectLemmas
pub mod ReadLemmas
pub mod RisingLemmas
pub mod TextLemmas
pub mod TokenLemmas
pub mod TreeLemmas
