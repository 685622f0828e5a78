-- The sheet, version 1: its records, the bytes of each, and the player that reads them back.
pub mod Bytes
pub mod Record
pub mod Fits
pub mod Player
