mod Plain
mod Tenths
