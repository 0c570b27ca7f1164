pub mod RiseKeeps
