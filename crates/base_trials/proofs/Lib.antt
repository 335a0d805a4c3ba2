pub mod OpenedLines
