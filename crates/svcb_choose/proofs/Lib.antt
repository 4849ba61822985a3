mod HeldKeys
mod KeySets
mod WholeValues
mod ProtocolSets
mod DistinctDefaults
mod Places
mod Vectors
