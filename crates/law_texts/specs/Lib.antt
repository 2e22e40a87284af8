pub mod Words
pub mod OperationTexts
pub mod LineTexts
pub mod ScriptTexts
pub mod LastReport
pub mod ManifestNumbers
pub mod OptionNumbers
