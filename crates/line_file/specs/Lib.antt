pub mod EndFiles
