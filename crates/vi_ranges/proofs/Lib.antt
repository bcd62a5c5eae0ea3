pub mod MappingLemmas
