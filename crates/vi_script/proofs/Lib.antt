mod Examples
pub mod ReadLemmas
pub mod NameLemmas
pub mod TallyLemmas
pub mod ReadingLemmas
pub mod FormLemmas
pub mod ValidLemmas
pub mod SoundLemmas
pub mod FieldLemmas
