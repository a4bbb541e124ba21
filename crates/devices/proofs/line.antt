pub mod TopLine
