pub mod FormulaRoots
pub mod Claims
