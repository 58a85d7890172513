-- settings that are refused, and settings that are told
pub mod SettingLemmas
-- CreateInput is proper
pub mod InputLemmas
