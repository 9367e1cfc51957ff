mod MadeLines
mod MadeOps
mod MadePaths
mod ShortNames
mod Words
