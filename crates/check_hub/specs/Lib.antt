pub mod Hub
