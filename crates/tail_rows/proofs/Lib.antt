mod Copying
mod Sizes
