pub mod ListRail
