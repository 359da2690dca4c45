pub mod Among
pub mod Escapes
pub mod Terminals
pub mod Shapes
pub mod Operand
pub mod Grammar
