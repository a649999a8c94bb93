mod Rising
mod Stopping
