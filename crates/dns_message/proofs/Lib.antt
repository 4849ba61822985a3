mod Steps
mod AliasSteps
mod Order
