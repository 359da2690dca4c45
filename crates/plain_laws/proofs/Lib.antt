pub mod Tests
pub mod Options
