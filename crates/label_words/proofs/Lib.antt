pub mod HexDigits
