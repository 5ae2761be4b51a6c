pub mod Band
