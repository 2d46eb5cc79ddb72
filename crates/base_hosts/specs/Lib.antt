pub mod HostRules
