pub mod Valves
