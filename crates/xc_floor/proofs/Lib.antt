pub mod LeastOf
pub mod SafeAt
