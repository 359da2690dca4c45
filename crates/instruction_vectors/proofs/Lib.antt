pub mod FlatRules
