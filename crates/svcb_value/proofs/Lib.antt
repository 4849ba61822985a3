mod PrintedTexts
mod Ports
