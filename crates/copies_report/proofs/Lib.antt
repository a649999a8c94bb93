pub mod FourCopies
pub mod Printed
