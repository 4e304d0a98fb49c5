pub mod dump
