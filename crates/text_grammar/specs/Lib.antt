pub mod Says
pub mod Grammar
pub mod Met
pub mod Reaches
