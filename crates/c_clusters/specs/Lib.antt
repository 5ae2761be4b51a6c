pub mod Clustering
