pub mod LastByte
