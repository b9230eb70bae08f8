mod Delimiting
mod Naming
mod Spelling
