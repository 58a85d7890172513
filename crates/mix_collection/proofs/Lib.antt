-- no more than so many bytes are read
pub mod Bounds
-- what missing options are
pub mod Defaults
-- the values of lines that were read are in their ranges
pub mod Fitting
-- rows that the registry or an item of others names stay so with each line
pub mod Kept
-- behind lines of which none is refused a name is found exactly where one of them gave it
pub mod Named
-- what the first lines of a collection say
pub mod Parts
-- what lines of a collection add
pub mod Pushed
