pub mod ReadFits
