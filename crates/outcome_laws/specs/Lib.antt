pub mod Laws
pub mod GoodCalls
pub mod SameInstances
pub mod WordsTell
pub mod ConsultIsDecide
