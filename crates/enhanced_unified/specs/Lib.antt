pub mod EnhancedUnified
