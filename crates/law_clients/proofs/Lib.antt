mod Pushes
mod Scans
