-- sums of channels: how great they are, and their quotients by the whole
pub mod Sums
-- lane by lane, vectors are the plain formulas
pub mod LaneLemmas
-- rows over others, some pixels more
pub mod Rows
-- quotients by multiplication, and fades
pub mod QuotientLemmas
-- rows faded to others, some bytes more
pub mod Fades
