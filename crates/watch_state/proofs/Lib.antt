mod Digesting
mod Framing
mod Naming
mod Opening
mod Shortest
