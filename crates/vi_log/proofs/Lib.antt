mod LogsKeeping
pub mod LogsMerging
pub mod LogsPlacing
