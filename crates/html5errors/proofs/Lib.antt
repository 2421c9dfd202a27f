mod FixedCodes
mod Formed
mod FormedReading
mod FormedSteps
mod NamedStates
mod SeenCodes
mod Words
