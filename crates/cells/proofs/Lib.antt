pub mod Rule
pub mod PairAnswers
pub mod Fillings
pub mod Folds
pub mod Index
pub mod Examples
