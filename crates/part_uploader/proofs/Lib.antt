mod Cuts
mod PartDue
