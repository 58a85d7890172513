-- the ranges of placements, steps and draws, one by one
pub mod Ranges
-- channels stay channels, and nothing lies over a colour unseen
pub mod Channels
-- columns and rows lead on apart from each other
pub mod Apart
-- the columns, or rows, of a span lead into the source, and no others
pub mod SpanLemmas
-- what a draw lays over a pixel is the draw
pub mod Sources
-- a row of pixels, one by one
pub mod Rows
-- pixels that are repeated in a row
pub mod SpanPixels
-- a part of some bytes that was written, and pixels in it and beside it
pub mod Parts
-- a row of a band under a draw, and the band
pub mod Layers
-- a canvas, pixel by pixel
pub mod Canvases
-- what a row shows of a source
pub mod FillLemmas
-- a picture of a shot is opaque
pub mod Opaque
-- a draw that covers a pixel whole hides what lies below it
pub mod HidingLemmas
-- bands of a picture, one by one and beside each other
pub mod Bands
