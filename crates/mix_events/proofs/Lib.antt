pub mod EventLemmas
pub mod FieldLemmas
pub mod SaidLemmas
