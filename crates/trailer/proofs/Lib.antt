pub mod MarkRun
