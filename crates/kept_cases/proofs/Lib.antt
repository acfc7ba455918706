pub mod KeptCase
