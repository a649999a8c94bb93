mod Products
mod Grid
mod Quenched
