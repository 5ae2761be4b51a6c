pub mod Polish
