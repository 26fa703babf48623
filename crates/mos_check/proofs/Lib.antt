pub mod KnownNames
pub mod KnownExpressions
pub mod KnownStatements
