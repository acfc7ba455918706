pub mod PassCase
