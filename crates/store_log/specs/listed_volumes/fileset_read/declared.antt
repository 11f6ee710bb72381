pub mod file_err
